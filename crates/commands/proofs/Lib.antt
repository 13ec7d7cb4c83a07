mod Named
mod Exits
mod Digits
mod Cuts
mod ItemLists
mod FieldLists
