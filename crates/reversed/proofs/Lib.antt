mod Mirror
