-- Judges of signatures: the question that they are asked, what a panel of them says, and files of verdicts. Read in this order.
pub mod Question
pub mod Panel
pub mod VerdictFile
