-- Examples: the verdicts on some histories, legal and not.
pub mod Places
pub mod Formulas
pub mod Debts
