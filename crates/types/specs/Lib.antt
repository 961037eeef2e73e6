pub mod SizeLaws
pub mod Views
pub mod Wire
pub mod TextWire
