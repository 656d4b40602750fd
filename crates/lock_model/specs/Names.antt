-- How names are spelled: 1 to 16 bytes out of a to z, 0 to 9 and _, the first a letter. This is the project's own rule.
use Rattle.std.specs.Prelude.{ℕ, Bool, false, ◌&&◌, ◌||◌, ◌==◌, nat_le, nat_lt, List, [], ◌∷◌, length}
use Rattle.std.specs.List.{list_all}
use Rattle.lock_model.specs.declared.limits.TheConstants.{NAME_BYTES}

-- a to z
abbrev pub is_letter : ℕ → Bool
is_letter b = nat_le 97 b && nat_le b 122

-- 0 to 9
abbrev pub is_digit : ℕ → Bool
is_digit b = nat_le 48 b && nat_le b 57

-- a to z, 0 to 9 or _
abbrev pub is_name_byte : ℕ → Bool
is_name_byte b = is_letter b || is_digit b || (b == 95)

-- whether bytes spell a name
abbrev pub is_name : List ℕ → Bool
is_name [] = false
is_name (b ∷ bs) = nat_lt (length bs) NAME_BYTES && is_letter b && list_all is_name_byte bs
