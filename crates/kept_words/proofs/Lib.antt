mod Leaving
mod Guards
