mod CallTexts
mod Cutting
pub mod Decimals
mod FewCalls
mod Linking
mod Listings
mod Accepted
mod Names
mod Numbers
mod Reading
mod Random
mod ReadingBack
mod Soundness
pub mod Splitting
mod Verbs
pub mod Mapped
pub mod Padding
pub mod Inner
