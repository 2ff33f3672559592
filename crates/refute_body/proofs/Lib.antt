pub mod BodyImages
pub mod Closings
pub mod ConditionFillings
pub mod ConditionFresh
pub mod EquationLaws
pub mod GivenVariables
pub mod Shapes
