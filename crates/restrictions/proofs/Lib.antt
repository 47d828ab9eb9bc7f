mod AdmitLaws
mod BuildLaws
mod Copies
mod MatchLaws
mod Splits
mod Tests
