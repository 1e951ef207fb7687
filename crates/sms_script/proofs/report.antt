pub mod IdTexts
