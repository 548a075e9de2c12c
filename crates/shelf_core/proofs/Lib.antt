mod EntryLaws
mod TapeLaws
mod SureLaws
