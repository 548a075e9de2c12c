-- A reader has to trust this file. What a run knows of the files that it has read or begun. (Own.)
use Rattle.std.specs.Prelude.{◌≡◌, ◌&&◌, ◌++◌, ◌∷◌, [], ◌↔◌, Bool, true, not, nat_eq, List, Option, Some, None, IsSome, Result, Ok, Err, if◌then◌else◌}
use Rattle.std.specs.List.{list_any}
use Rattle.std.specs.Fs.{file_type, IsFile}
use Rattle.std.specs.declared.fs.attrs.Metadata.{Metadata}
use Rattle.system_files.specs.declared.nodes.Node.{Node}

-- one file: the same device, and the same number there
abbrev pub same_file : Node → Node → Bool
same_file a b = nat_eq a.device b.device && nat_eq a.number b.number

-- the file is one of these
abbrev pub is_known : List Node → Node → Bool
is_known known node = list_any (λ it. same_file it node) known

-- the file is none of these; one that isn't regular never is
abbrev pub is_fresh : List Node → Option Node → Bool
is_fresh known None = true
is_fresh known (Some node) = not (is_known known node)

-- these files and this one, once
abbrev pub with_file : List Node → Option Node → List Node
with_file known None = known
with_file known (Some node) = if is_known known node then known else known ++ node ∷ []

-- this file, if it is a regular one, is among the files afterwards, and it is said whether it was none
-- of them before
pub record IsNoted (node : Option Node) (fresh : Bool) (was now : List Node) : Type 0 where
  pub answer : fresh ≡ is_fresh was node
  pub known : now ≡ with_file was node

-- the file that this is said of is among the files afterwards, if it is a regular one, and it is said
-- whether it was none of them before
pub record Adds (metadata : Metadata) (fresh : Bool) (was now : List Node) : Type 0 where
  pub node : Option Node
  pub regular : IsSome node ↔ IsFile (file_type metadata)
  pub answer : fresh ≡ is_fresh was node
  pub known : now ≡ with_file was node

-- a file was begun: it was none of those that were known, and is known afterwards if it is a
-- regular one
abbrev pub IsBegun : List Node → List Node → Type 0
IsBegun was now = (metadata : Metadata) × Adds metadata true was now

-- the file that this is said of is among the files afterwards, if it is a regular one; where nothing is
-- said, they are as before
abbrev pub MayAdd : {E : Type 0} → Result Metadata E → List Node → List Node → Type 0
MayAdd (Ok metadata) was now = (fresh : Bool) × Adds metadata fresh was now
MayAdd (Err error) was now = now ≡ was

-- the files of both of these, where they are regular ones
abbrev pub HasBoth : {E F : Type 0} → Result Metadata E → Result Metadata F → List Node → Type 0
HasBoth output error_output known = (first : List Node) × MayAdd output [] first × MayAdd error_output first known
