mod VerdictLaws
pub mod OneVerdict
pub mod SomeVerdict
