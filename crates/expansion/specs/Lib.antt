pub mod Few
pub mod Listed
pub mod Categories
pub mod Choice
pub mod Asked
pub mod Put
