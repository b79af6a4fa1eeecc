mod Stripes
mod Contents
