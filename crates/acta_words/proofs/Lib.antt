pub mod Blanks
pub mod Digits
pub mod FirstLines
pub mod NumeralsAgain
pub mod SpansOfWords
pub mod TextAgain
