use Rattle.std.proofs.Common.{◌∙◌, sym, ap, cond, Some}
use Rattle.std.specs.Str.{bytes_eq}
use Rattle.std.specs.HashMap.{get_by_text}
use Rattle.std.specs.Prelude.{string_bytes}
use Rattle.std.proofs.lemmas.Map.Text.{hash_map_updates_text}
use Rattle.sx_outline.proofs.PlaceLaws.{places_known, places_new}
use Rattle.sx_outline.proofs.places.Places.push.Goals as goal

pub returns-then-is_some : goal.returns-then-is_some
returns-then-is_some c = λ names h place.
    places_known names c.args.self.now c.args.name.now c.place.result h c.place.ensures (sym c.is_some.ensures ∙ c.if-is_some.true)

pub returns : goal.returns
returns c = λ names h place.
    places_new names c.args.self.now (record { entries = c.insert.new.self }) c.args.name.now (string_bytes c.in_ok-key.key) c.place.result h c.place.ensures (sym c.is_some.ensures ∙ c.if-is_some.false) (c.in_ok-key.ensures.ok ∙ c.as_str.ensures)
    (λ other. hash_map_updates_text (string_bytes c.in_ok-key.key) c.args.self.now.entries c.insert.new.self (Some c.args.place) c.in_ok-insert.ensures.updates other
    ∙ ap (λ n. cond (bytes_eq (string_bytes c.in_ok-key.key) other) (Some n) (get_by_text c.args.self.now.entries other)) place)
