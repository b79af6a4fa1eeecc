mod Places
mod Bytes
mod Packing
