mod NameLemmas
mod Equations
mod Judge
mod SplitLaws
mod Splits
mod ListSplits
mod StmtSplits
mod WalkLaws
