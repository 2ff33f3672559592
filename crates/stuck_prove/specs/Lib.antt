-- Public: what public clauses say.
pub mod NotMet
pub mod RefutedRules
-- Private: what clauses of private functions cite.
pub mod Trials
pub mod Settings
