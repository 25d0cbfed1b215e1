mod Sides
mod Places
mod Plain
mod Same
mod Levels
mod Seats
mod Maps
mod Walks
