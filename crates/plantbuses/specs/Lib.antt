pub mod AddressSets
pub mod AnswerSteps
pub mod HandingSteps
pub mod KeptSteps
pub mod OfferSteps
pub mod OutputSteps
pub mod OwedSteps
pub mod StoreSteps
