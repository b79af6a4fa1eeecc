mod Contents
mod Stripes
