mod KeptGames
mod Sections
mod Streaming
