mod Deciding
mod Judging
