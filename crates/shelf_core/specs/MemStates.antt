-- A reader has to trust this file for the stores in memory. What the stores in memory mean. (Own.)
use Rattle.std.specs.Prelude.{◌≡◌, ◌⊎◌, ℕ, List, [], ◌++◌, take, Option, Some, None, IsSome}
use Rattle.std.specs.FinMap as fin
use Rattle.shelf_traits.specs.Files.{Files, ShelfState, SinkState, content_of}
use Rattle.shelf_core.specs.Listings.{due, after_call, one_more}
use Rattle.shelf_core.specs.declared.listing.Call.{Call}
use Rattle.shelf_core.specs.declared.listing.Call.TheVariants.{Get, Add}
use Rattle.shelf_core.specs.declared.listing.Listing.{Listing}

-- the files, the calls that are listed to fail, one count of faults of each kind for all names, and
-- the names of all calls while there is memory for them
pub record MemShelfState : Type 0 where
  pub files : Files
  pub listings : List Listing
  pub reads : ℕ
  pub writes : ℕ
  pub asked : Option (List (List ℕ))

-- the bytes, the calls of add that are listed to fail, and the count of faults
pub record MemSinkState : Type 0 where
  pub bytes : List ℕ
  pub listings : List Listing
  pub faults : ℕ

-- what the trait sees of each: files and bytes are known, and the counts are those of every name
abbrev pub mem_shelf_state : MemShelfState → ShelfState
mem_shelf_state m = record {
  files = Some m.files;
  reads = λ _. m.reads;
  writes = λ _. m.writes;
  asked = m.asked;
}

abbrev pub mem_sink_state : MemSinkState → SinkState
mem_sink_state m = record { bytes = Some m.bytes; faults = m.faults }

-- after a call that went well: the files are these, and the names of all calls
abbrev pub well : Call → List ℕ → MemShelfState → Files → Option (List (List ℕ)) → MemShelfState
well call name was files calls =
    record was { files = files; listings = after_call call name was.listings; asked = calls }

-- after a read that failed: the names of all calls are these
abbrev pub unread : List ℕ → MemShelfState → Option (List (List ℕ)) → MemShelfState
unread name was calls = record was {
  listings = after_call Get name was.listings;
  reads = one_more was.reads;
  asked = calls;
}

-- after a write that failed: the files are these, and the names of all calls
abbrev pub unwritten : Call → List ℕ → MemShelfState → Files → Option (List (List ℕ))
    → MemShelfState
unwritten call name was files calls = record was {
  files = files;
  listings = after_call call name was.listings;
  writes = one_more was.writes;
  asked = calls;
}

-- a sink after an add that went well
abbrev pub told_whole : List ℕ → MemSinkState → MemSinkState
told_whole piece was =
    record was { bytes = was.bytes ++ piece; listings = after_call Add [] was.listings }

-- a sink after an add that failed: the bytes are these
abbrev pub untold : MemSinkState → List ℕ → MemSinkState
untold was bytes = record was {
  bytes = bytes;
  listings = after_call Add [] was.listings;
  faults = one_more was.faults;
}

-- a read of this name fails now: it is listed, or the name is missing
abbrev pub FailsToGet : List ℕ → MemShelfState → Type 0
FailsToGet name was = IsSome (due Get name was.listings) ⊎ (fin.get was.files name ≡ None)

-- the file with what a listed add keeps of its piece
abbrev pub kept_in : Files → List ℕ → List ℕ → ℕ → Files
kept_in files name piece kept = fin.insert files name (content_of files name ++ take kept piece)

-- the files after an add that failed: as before after a refused growth, or with what the listing
-- keeps
abbrev pub KeptBy : Option ℕ → Files → List ℕ → List ℕ → Files → Type 0
KeptBy None was name piece now = now ≡ was
KeptBy (Some kept) was name piece now = (now ≡ was) ⊎ (now ≡ kept_in was name piece kept)

-- the bytes of a sink after an add that failed
abbrev pub SinkKeptBy : Option ℕ → List ℕ → List ℕ → List ℕ → Type 0
SinkKeptBy None was piece now = now ≡ was
SinkKeptBy (Some kept) was piece now = (now ≡ was) ⊎ (now ≡ was ++ take kept piece)
