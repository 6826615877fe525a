-- The first lines of language and extension files, as they can be spelled.
use Rattle.std.proofs.Common.{◌≡◌, ℕ, Bool, true, false, leb, ◌&&◌, ◌<◌, List, [], ◌∷◌, ◌++◌, length, refl, ap, ◌∙◌, arith}
use Rattle.std.specs.Prelude.{codes, is_some}
use Rattle.std.specs.Str.{IsUtf8}
use Rattle.std.specs.List.{list_all}
use Rattle.std.specs.Char.{is_ascii_alphabetic}
use Rattle.std.proofs.lemmas.Bool.{false≢true}
use Rattle.std.proofs.lemmas.Bool.Decides.{nat_tests}
use Rattle.sx_lines.specs.Bytes.{is_blank}
use Rattle.std.proofs.lemmas.Str.{IsUtf8-append, IsUtf8-nil}
use Rattle.sx_lines.specs.Lines.{NoFeed}
use Rattle.sx_lines.specs.Words.{after, is_name, is_name_byte}
use Rattle.sx_lines.proofs.TextLaws.{IsPlain-append, all_inner, plain_from_test, plain_text, name_no_blank, no_blank_plain}
use Rattle.sx_lines.proofs.Utf8Laws.{name_utf8}
use Rattle.sx_directives.specs.declared.file_kind.FileKind.TheVariants as files
use Rattle.sx_directives.specs.Parts.{parts_of, NoBlank}
use Rattle.sx_directives.specs.Spelling.{IsName, IsModuleName}
use Rattle.sx_directives.specs.Rows.{IsRow}
use Rattle.sx_directives.specs.declared.row.Row.TheVariants.{Language, Extension}
use Rattle.sx_outline.specs.Known.{is_dropped}
use Rattle.sx_outline.proofs.Written.{IsKeptText, byte_utf8}

and_both : (a b : Bool) → a && b ≡ true → (a ≡ true) × (b ≡ true)
and_both true true e = (refl, refl)
and_both true false e = absurd cc
and_both false b e = absurd cc

letter_no_blank : (c : ℕ) → is_ascii_alphabetic c ≡ true → is_blank c ≡ false
letter_no_blank c h = grind (arith, nat_tests)

dash_no_blank : (c : ℕ) → is_name_byte true c ≡ true → is_blank c ≡ false
dash_no_blank c h = grind (arith, nat_tests)

plain_no_blank : (c : ℕ) → is_name_byte false c ≡ true → is_blank c ≡ false
plain_no_blank c h = grind (arith, nat_tests)

byte_no_blank : (dash : Bool) (c : ℕ) → is_name_byte dash c ≡ true → is_blank c ≡ false
byte_no_blank true c h = dash_no_blank c h
byte_no_blank false c h = plain_no_blank c h

bytes_no_blank : (dash : Bool) (name : List ℕ) → list_all (is_name_byte dash) name ≡ true → NoBlank name
bytes_no_blank dash [] h = tt
bytes_no_blank dash (c ∷ name) h =
    let both = and_both (is_name_byte dash c) (list_all (is_name_byte dash) name) h in
    (byte_no_blank dash c both.0, bytes_no_blank dash name both.1)

-- bytes without blanks are one part
part_whole : (b : ℕ) (part : List ℕ) → NoBlank (b ∷ part) → parts_of (b ∷ part) ≡ (b ∷ part) ∷ []
unfolding parts_of
part_whole b [] h = rw (h.0) refl
part_whole b (c ∷ part) h =
    let e : parts_of (c ∷ part) ≡ (c ∷ part) ∷ [] = part_whole c part h.1 in
    rw (h.0, e, h.1.0) refl

-- a name is one part
name_parts : (dash : Bool) (name : List ℕ) → is_name dash name ≡ true → parts_of name ≡ name ∷ []
unfolding is_name
name_parts dash [] h = absurd (false≢true h)
name_parts dash (c ∷ name) h =
    let all = and_both (is_ascii_alphabetic c && leb (length name) 63) (list_all (is_name_byte dash) name) h in
    let first = and_both (is_ascii_alphabetic c) (leb (length name) 63) all.0 in
    part_whole c name (letter_no_blank c first.0, bytes_no_blank dash name all.1)

abbrev pub language_line : List ℕ → List ℕ
language_line name = codes "language " ++ name

language_parts : (name : List ℕ) → parts_of (language_line name) ≡ codes "language" ∷ parts_of name
unfolding parts_of
language_parts name = refl

pub language_row : (name : List ℕ) → IsName name → IsRow files.Language (language_line name) (Language name)
language_row name h = record {
  rest = name ∷ [];
  parts_are = language_parts name ∙ ap (λ (x : List (List ℕ)). codes "language" ∷ x) (name_parts true name h);
  word = refl;
  follows = record { parts_are = refl; named = h };
}

abbrev pub extension_line : List ℕ → List ℕ
extension_line name = codes "extension " ++ name

extension_parts : (name : List ℕ) → parts_of (extension_line name) ≡ codes "extension" ∷ parts_of name
unfolding parts_of
extension_parts name = refl

pub extension_row : (name : List ℕ) → IsModuleName name → IsRow files.Extension (extension_line name) (Extension name)
extension_row name h = record {
  rest = name ∷ [];
  parts_are = extension_parts name ∙ ap (λ (x : List (List ℕ)). codes "extension" ∷ x) (name_parts false name h);
  word = refl;
  follows = record { parts_are = refl; named = h };
}

-- a name that is one
abbrev pub some_name : List ℕ
some_name = codes "x"

pub some_is_name : IsName some_name
unfolding is_name
some_is_name = refl

pub some_is_module : IsModuleName some_name
unfolding is_name
some_is_module = refl

-- the second line of an extension file
pub second_row : IsRow files.Extension (language_line some_name) (Language some_name)
second_row = record {
  rest = some_name ∷ [];
  parts_are = language_parts some_name ∙ ap (λ (x : List (List ℕ)). codes "language" ∷ x) (name_parts true some_name some_is_name);
  word = refl;
  follows = record { parts_are = refl; named = some_is_name };
}

-- ---- lines that are kept

-- a test that a text is ASCII, which computes
abbrev all_low : List ℕ → Bool
all_low [] = true
all_low (b ∷ text) = leb b 127 && all_low text

low_of : (b : ℕ) → leb b 127 ≡ true → b < 128
low_of b h = grind (arith, nat_tests)

ascii_utf8 : (text : List ℕ) → all_low text ≡ true → IsUtf8 text
ascii_utf8 [] h = IsUtf8-nil
ascii_utf8 (b ∷ text) h =
    let both = and_both (leb b 127) (all_low text) h in
    IsUtf8-append (b ∷ []) text (byte_utf8 b (low_of b both.0)) (ascii_utf8 text both.1)

plain_no_feed : (text : List ℕ) → all_inner text ≡ true → NoFeed text
plain_no_feed text h = (plain_text text (plain_from_test text h)).feed

end_stays : is_dropped (parts_of (codes "end")) ≡ false
unfolding parts_of after
end_stays = refl

pub end_kept : IsKeptText (codes "end")
end_kept = record { no_feed = plain_no_feed (codes "end") refl; utf8 = ascii_utf8 (codes "end") refl; stays = end_stays }

bar_stays : is_dropped (parts_of (codes "---")) ≡ false
unfolding parts_of after
bar_stays = refl

pub bar_kept : IsKeptText (codes "---")
bar_kept = record { no_feed = plain_no_feed (codes "---") refl; utf8 = ascii_utf8 (codes "---") refl; stays = bar_stays }

some_stays : is_dropped (parts_of (codes "x")) ≡ false
unfolding parts_of after
some_stays = refl

pub some_kept : IsKeptText (codes "x")
some_kept = record { no_feed = plain_no_feed (codes "x") refl; utf8 = ascii_utf8 (codes "x") refl; stays = some_stays }

named_no_feed : (dash : Bool) (word name : List ℕ) → all_inner word ≡ true → is_name dash name ≡ true → NoFeed (word ++ name)
named_no_feed dash word name e h =
    (plain_text (word ++ name) (IsPlain-append word name (plain_from_test word e) (no_blank_plain name (name_no_blank dash name h)))).feed

first_stays : (word : List ℕ) (parts : List (List ℕ)) → is_some (after (codes "//") word) ≡ false → is_dropped (word ∷ parts) ≡ false
first_stays word parts h = h

language_is : is_some (after (codes "//") (codes "language")) ≡ false
unfolding after
language_is = refl

extension_is : is_some (after (codes "//") (codes "extension")) ≡ false
unfolding after
extension_is = refl

pub language_kept : (name : List ℕ) → IsName name → IsKeptText (language_line name)
language_kept name h = record {
  no_feed = named_no_feed true (codes "language ") name refl h;
  utf8 = IsUtf8-append (codes "language ") name
      (ascii_utf8 (codes "language ") refl) (name_utf8 true name h);
  stays = ap is_dropped (language_parts name) ∙ first_stays (codes "language") (parts_of name) language_is;
}

pub extension_kept : (name : List ℕ) → IsModuleName name → IsKeptText (extension_line name)
extension_kept name h = record {
  no_feed = named_no_feed false (codes "extension ") name refl h;
  utf8 = IsUtf8-append (codes "extension ") name
      (ascii_utf8 (codes "extension ") refl) (name_utf8 false name h);
  stays = ap is_dropped (extension_parts name) ∙ first_stays (codes "extension") (parts_of name) extension_is;
}
