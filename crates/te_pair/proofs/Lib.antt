pub mod Among
pub mod PlacesKeep
pub mod PartnersFound
pub mod EndsTold
