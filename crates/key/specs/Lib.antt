pub mod Sized
pub mod Key
pub mod Laws
pub mod Raised
pub mod SizedLaws
pub mod TextsLaws
