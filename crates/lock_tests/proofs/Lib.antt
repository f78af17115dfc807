mod Plans
mod Pushes
