-- What a reader has to trust: rules that fields of record files of all kinds share. (Own.)
use Rattle.std.specs.Prelude.{ℕ, List, length, nat_le, if◌then◌else◌, Result, Ok, Err}
use Rattle.shelf_traits.specs.declared.fault.FormFault.TheVariants.{Form}
use Rattle.shelf_traits.specs.declared.fault.ReadError.{ReadError}
use Rattle.shelf_traits.specs.declared.fault.ReadError.TheVariants.{Bad}

-- any number may be there
abbrev pub any_rule : ℕ → ℕ → Result ℕ ReadError
any_rule at n = Ok n

-- the file ends here
abbrev pub end_rule : ℕ → List ℕ → Result (Unit {0}) ReadError
end_rule at bytes = if nat_le (length bytes) at then Ok tt else Err (Bad (Form at))
