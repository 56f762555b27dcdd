pub mod CacheLayout
pub mod CacheReadBack
pub mod CacheViewed
pub mod CacheCalls
pub mod Edges
pub mod CacheTheorems
