-- A look-up after an insertion.
use Rattle.std.proofs.Common.{◌≡◌, ℕ, List, refl, ap, ◌∙◌, Bool, true, false}
use Rattle.std.specs.Prelude.{Option, Some, Vec, if◌then◌else◌, string_bytes}
use Rattle.std.specs.declared.alloc.Global.{Global}
use Rattle.std.specs.HashMap as hash
use Rattle.std.specs.Str.{bytes_eq}
use Rattle.std.specs.String.{string_eq}
use Rattle.std.proofs.lemmas.Map.Text.{hash_map_updates_text}
use Rattle.sx_outside.specs.Files.{put}
use Rattle.sx_outside.specs.Table.{Entries, files_in, bytes_in}

chosen_bytes : (b : Bool) (bytes : Vec ℕ Global) (held : Option (Vec ℕ Global)) → bytes_in (if b then Some bytes else held) ≡ (if b then Some bytes.items else bytes_in held)
chosen_bytes true bytes held = refl
chosen_bytes false bytes held = refl

-- after bytes were inserted under a name, the files are those with the bytes put there
pub files_in-put : (old new : Entries) (name : List ℕ) (bytes : Vec ℕ Global) → hash.UpdatesBy string_eq (λ k. bytes_eq name (string_bytes k)) old new (Some bytes) → files_in new ≡ put (files_in old) name bytes.items
unfolding put
files_in-put old new name bytes updates = λ i other. (ap bytes_in (hash_map_updates_text name old new (Some bytes) updates other) ∙ chosen_bytes (bytes_eq name other) bytes (hash.get_by_text old other)) i
