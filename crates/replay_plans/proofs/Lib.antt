pub mod AheadLemmas
pub mod LineLemmas
pub mod SizeLemmas
pub mod SmallLemmas
