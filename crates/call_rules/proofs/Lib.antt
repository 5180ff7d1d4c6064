pub mod Cutting
mod RuleExamples
pub mod RuleLaws
pub mod Trees
