pub mod CallsBetween
