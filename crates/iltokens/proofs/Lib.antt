mod AllWords
mod BlanksAgain
pub mod Choices
mod Comments
mod DigitLaws
mod DigitsAgain
pub mod Exact
mod Fallen
pub mod Firm
mod FrontsAgain
pub mod Laws
pub mod Loops
mod NumbersAgain
mod OverBlanks
mod OverDigits
pub mod Repeats
pub mod Reporting
pub mod ReservedWords
pub mod Selects
mod Spelled
mod TimeLaws
mod TimesAgain
mod TokenLaws
mod WordRows
mod WordsAgain
