pub mod Walking
pub mod Laws
pub mod Ties
pub mod Table
pub mod FacetRows
