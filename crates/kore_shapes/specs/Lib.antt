-- Public: what public clauses say, and public definitions of other crates.
pub mod SameSorts
pub mod Forms
pub mod SoughtForms
pub mod Shapes
pub mod SideTests
pub mod Statements
pub mod EquationForms
pub mod LastResorts
pub mod Views
pub mod StatementViews
pub mod EquationViews
pub mod PartViews
pub mod ResortViews
