mod Replaying
mod Asked
