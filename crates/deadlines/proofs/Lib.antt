pub mod Tops
pub mod Fills
