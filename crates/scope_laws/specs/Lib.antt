pub mod ScopeLaw
pub mod ScopePhases
pub mod ScopesKept
