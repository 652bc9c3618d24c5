mod Covering
mod Sweep
