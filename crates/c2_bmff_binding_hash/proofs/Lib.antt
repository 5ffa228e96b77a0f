mod Texts
mod ErrorLemmas
