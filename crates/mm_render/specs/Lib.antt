-- Private: what clauses of private functions cite, and how private fields are seen.
pub mod KeptView
pub mod Keys
pub mod ClaimView
pub mod PlaceTable
pub mod Parts
pub mod VariablesView
pub mod ListedVariables
pub mod NeededView
pub mod HeadText
pub mod MandatoryLabels
pub mod TheoremText
pub mod KeptCode
pub mod KeyPlaces
pub mod ProvedText
