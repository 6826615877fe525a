-- Lines in their order can be written as the bytes of a file.
use Rattle.std.proofs.Common.{◌≡◌, ◌≢◌, ℕ, zero, suc, ◌<◌, Bool, true, false, cond, eqb, ◌&&◌, List, [], ◌∷◌, ◌++◌, get_or, refl, sym, ap, subst, ◌∙◌, inl, inr, append_assoc, append-nil, arith}
use Rattle.std.specs.Prelude.{◌⊎◌}
use Rattle.std.specs.Str.{IsUtf8}
use Rattle.std.proofs.lemmas.Bool.{eqb-true}
use Rattle.std.proofs.lemmas.Bool.Decides.{nat_tests}
use Rattle.std.proofs.lemmas.Str.{IsUtf8-append, IsUtf8-nil, IsUtf8-from_ascii}
use Rattle.sx_lines.specs.Lines.{Lines, over, line, lines_from, next_number, with_byte, ends_here, NoFeed}
use Rattle.sx_lines.proofs.LineLaws.{first_line, stripped_push}
use Rattle.sx_lines.proofs.Utf8Laws.{utf8_cut}
use Rattle.sx_directives.specs.Parts.{parts_of}
use Rattle.sx_outline.specs.Known.{kept_lines, is_dropped}
use Rattle.sx_outline.specs.Stages.{Numbered}
use Rattle.sx_outline.specs.Structure.{numbered_lines}
use Rattle.sx_outline.specs.BadLines.{BeginGoodFile}

-- ---- how a file is cut into lines

-- the bytes between a line and what comes after it
abbrev IsSeam : (seam after : List ℕ) → Type 0
IsSeam seam after = (seam ≡ 10 ∷ []) ⊎ (seam ≡ 13 ∷ 10 ∷ []) ⊎ ((seam ≡ []) × (after ≡ []))

-- the lines of the bytes from this number on
abbrev Cuts : ℕ → List ℕ → Lines → Type 0
Cuts n bytes (over m) = (m ≡ n) × (bytes ≡ [])
Cuts n bytes (line m text after more) =
    (m ≡ n) × (seam : List ℕ) × (bytes ≡ text ++ (seam ++ after)) × IsSeam seam after × NoFeed text × Cuts (next_number n) after more

nothing_before : (c : ℕ) (bytes : List ℕ) → c ∷ bytes ≡ [] → ⊥
nothing_before c bytes e = cc

same_byte : (c d : ℕ) (xs ys : List ℕ) → c ∷ xs ≡ d ∷ ys → c ≡ d
same_byte c d xs ys e = cc

-- a carriage return before a line feed
with_return : (n c : ℕ) (rest : List ℕ) (lines : Lines) → c ≡ 10 → Cuts n (c ∷ rest) lines → Cuts n (13 ∷ c ∷ rest) lines
with_return n c rest (over m) e h = absurd (nothing_before c rest h.1)
with_return n c rest (line m (t ∷ text) after more) e (is, seam, parts, ends, text_is, others) =
    absurd (text_is.0 (sym (same_byte c t rest (text ++ (seam ++ after)) parts) ∙ e))
with_return n c rest (line m [] after more) e (is, seam, parts, inl ends, text_is, others) =
    (is, 13 ∷ seam, ap (λ (x : List ℕ). 13 ∷ x) parts, inr (inl (ap (λ (x : List ℕ). 13 ∷ x) ends)), text_is, others)
with_return n c rest (line m [] after more) e (is, seam, parts, inr (inl ends), text_is, others) =
    let two : c ∷ rest ≡ 13 ∷ (10 ∷ after) = parts ∙ ap (λ (x : List ℕ). x ++ after) ends in
    let thirteen : c ≡ 13 = same_byte c 13 rest (10 ∷ after) two in
    absurd (omega (arith, e, thirteen))
with_return n c rest (line m [] after more) e (is, seam, parts, inr (inr ends), text_is, others) =
    absurd (nothing_before c rest (parts ∙ ap (λ (x : List ℕ). x ++ after) ends.0 ∙ ends.1))

-- one more byte of the first line
one_more : (n b : ℕ) (bytes : List ℕ) (lines : Lines) → b ≢ 10 → Cuts n bytes lines → Cuts n (b ∷ bytes) (with_byte b lines)
unfolding with_byte
one_more n b bytes (over m) ne h = (h.0, [], ap (λ (x : List ℕ). b ∷ x) h.1, inr (inr (refl, refl)), (ne, tt), (ap next_number h.0, refl))
one_more n b bytes (line m text after more) ne (is, seam, parts, ends, text_is, others) =
    (is, seam, ap (λ (x : List ℕ). b ∷ x) parts, ends, (ne, text_is), others)

and_first : (a b : Bool) → a && b ≡ true → (a ≡ true) × (b ≡ true)
and_first true true e = (refl, refl)
and_first true false e = absurd cc
and_first false b e = absurd cc

not_feed : (b : ℕ) → eqb b 10 ≡ false → b ≢ 10
not_feed b e = grind (arith, nat_tests)

none_here : (a : Bool) → a && ends_here [] ≡ true → ⊥
none_here true e = cc
none_here false e = cc

dropped : (n b : ℕ) (bytes : List ℕ) → (eqb b 13 && ends_here bytes) ≡ true → Cuts n bytes (lines_from n bytes) → Cuts n (b ∷ bytes) (lines_from n bytes)
dropped n b [] e h = absurd (none_here (eqb b 13) e)
dropped n b (c ∷ rest) e h =
    let both = and_first (eqb b 13) (eqb c 10) e in
    subst (λ (x : ℕ). Cuts n (x ∷ c ∷ rest) (lines_from n (c ∷ rest))) (sym (eqb-true b 13 both.0)) (with_return n c rest (lines_from n (c ∷ rest)) (eqb-true c 10 both.1) h)

cuts_step : (n b : ℕ) (bytes : List ℕ) (feed drops : Bool) → eqb b 10 ≡ feed → (eqb b 13 && ends_here bytes) ≡ drops → Cuts n bytes (lines_from n bytes)
    → Cuts (next_number n) bytes (lines_from (next_number n) bytes)
    → Cuts n (b ∷ bytes) (cond feed (line n [] bytes (lines_from (next_number n) bytes)) (cond drops (lines_from n bytes) (with_byte b (lines_from n bytes))))
cuts_step n b bytes true drops e f h k = (refl, 10 ∷ [], ap (λ (x : ℕ). x ∷ bytes) (eqb-true b 10 e), inl refl, tt, k)
cuts_step n b bytes false true e f h k = dropped n b bytes f h
cuts_step n b bytes false false e f h k = one_more n b bytes (lines_from n bytes) (not_feed b e) h

cuts : (n : ℕ) (bytes : List ℕ) → Cuts n bytes (lines_from n bytes)
unfolding lines_from
cuts n [] = (refl, refl)
cuts n (b ∷ bytes) = cuts_step n b bytes (eqb b 10) (eqb b 13 && ends_here bytes) refl refl (cuts n bytes) (cuts (next_number n) bytes)

-- ---- lines in their order

-- the number after so many lines more
abbrev pub further : ℕ → ℕ → ℕ
further zero n = n
further (suc k) n = further k (next_number n)

-- a text that a kept line can have
pub record IsKeptText (text : List ℕ) : Type 0 where
  pub no_feed : NoFeed text
  pub utf8 : IsUtf8 text
  pub stays : is_dropped (parts_of text) ≡ false

-- numbers rise from this one on
abbrev pub InOrder : ℕ → List Numbered → Type 0
InOrder n [] = Unit {0}
InOrder n (l ∷ lines) = (k : ℕ) × (l.number ≡ further k n) × IsKeptText l.text × InOrder (next_number l.number) lines

seam_utf8 : (text seam after : List ℕ) → IsSeam seam after → IsUtf8 (text ++ (seam ++ after)) → IsUtf8 text × IsUtf8 after
seam_utf8 text seam after (inl e) u = utf8_cut text after 10 (omega arith) (subst (λ (x : List ℕ). IsUtf8 (text ++ (x ++ after))) e u)
seam_utf8 text seam after (inr (inl e)) u =
    let one = utf8_cut text (10 ∷ after) 13 (omega arith) (subst (λ (x : List ℕ). IsUtf8 (text ++ (x ++ after))) e u) in
    (one.0, (utf8_cut [] after 10 (omega arith) one.1).1)
seam_utf8 text seam after (inr (inr e)) u =
    let nothing : seam ++ after ≡ [] = ap (λ (x : List ℕ). x ++ after) e.0 ∙ e.1 in
    (subst (λ (x : List ℕ). IsUtf8 x) (ap (λ (x : List ℕ). text ++ x) nothing ∙ append-nil text) u, subst (λ (x : List ℕ). IsUtf8 x) (sym e.1) IsUtf8-nil)

-- more blank lines before them
further_on : (n : ℕ) (lines : List Numbered) → InOrder (next_number n) lines → InOrder n lines
further_on n [] h = tt
further_on n (l ∷ lines) h = (suc h.0, h.1, h.2, h.3)

kept_step : (n : ℕ) (text after : List ℕ) (more : Lines) (drops : Bool) → is_dropped (parts_of text) ≡ drops → NoFeed text → IsUtf8 text → InOrder (next_number n) (numbered_lines (kept_lines more))
    → InOrder n (numbered_lines (cond drops (kept_lines more) (line n text after (kept_lines more))))
kept_step n text after more true e no_feed utf8 h = further_on n (numbered_lines (kept_lines more)) h
kept_step n text after more false e no_feed utf8 h = (0, refl, record { no_feed = no_feed; utf8 = utf8; stays = e }, h)

order_of : (n : ℕ) (bytes : List ℕ) (lines : Lines) → IsUtf8 bytes → Cuts n bytes lines → InOrder n (numbered_lines (kept_lines lines))
unfolding kept_lines
order_of n bytes (over m) u h = tt
order_of n bytes (line m text after more) u (is, seam, parts, ends, text_is, others) =
    let both = seam_utf8 text seam after ends (subst (λ (x : List ℕ). IsUtf8 x) parts u) in
    let rest : InOrder (next_number n) (numbered_lines (kept_lines more)) = order_of (next_number n) after more both.1 others in
    subst (λ (x : ℕ). InOrder n (numbered_lines (cond (is_dropped (parts_of text)) (kept_lines more) (line x text after (kept_lines more))))) (sym is)
    (kept_step n text after more (is_dropped (parts_of text)) refl text_is both.0 rest)

-- the kept lines of UTF-8 stand in their order
pub kept_in_order : (bytes : List ℕ) → IsUtf8 bytes → InOrder 1 (numbered_lines (kept_lines (lines_from 1 bytes)))
kept_in_order bytes u = order_of 1 bytes (lines_from 1 bytes) u (cuts 1 bytes)

-- ---- written lines

-- bytes with these kept lines, from this number on
pub record IsWritten (n : ℕ) (lines : List Numbered) : Type 0 where
  pub bytes : List ℕ
  pub utf8 : IsUtf8 bytes
  pub are : numbered_lines (kept_lines (lines_from n bytes)) ≡ lines

low_one : (b : ℕ) → b < 128 → (i : ℕ) → get_or (b ∷ []) i 0 < 128
low_one b h zero = h
low_one b h (suc i) = omega arith

pub byte_utf8 : (b : ℕ) → b < 128 → IsUtf8 (b ∷ [])
byte_utf8 b h = IsUtf8-from_ascii (b ∷ []) (low_one b h)

feed_utf8 : IsUtf8 (10 ∷ [])
feed_utf8 = byte_utf8 10 (omega arith)

none_written : (n : ℕ) → IsWritten n []
unfolding kept_lines lines_from
none_written n = record { bytes = []; utf8 = IsUtf8-nil; are = refl }

blank_parts : is_dropped (parts_of []) ≡ true
unfolding parts_of
blank_parts = refl

blank_written : (n : ℕ) (lines : List Numbered) → IsWritten (next_number n) lines → IsWritten n lines
unfolding kept_lines lines_from
blank_written n lines h = record { bytes = 10 ∷ h.bytes; utf8 = IsUtf8-append (10 ∷ []) h.bytes feed_utf8 h.utf8; are = rw blank_parts h.are }

blanks_written : (k n : ℕ) (lines : List Numbered) → IsWritten (further k n) lines → IsWritten n lines
blanks_written zero n lines h = h
blanks_written (suc k) n lines h = blank_written n lines (blanks_written k (next_number n) lines h)

no_feed_push : (text : List ℕ) (b : ℕ) → b ≢ 10 → NoFeed text → NoFeed (text ++ b ∷ [])
no_feed_push [] b ne h = (ne, tt)
no_feed_push (c ∷ text) b ne h = (h.0, no_feed_push text b ne h.1)

-- a line and a carriage return before its line feed
line_written : (n : ℕ) (text : List ℕ) (lines : List Numbered) → IsKeptText text → IsWritten (next_number n) lines → IsWritten n (record { number = n; text = text } ∷ lines)
unfolding kept_lines
line_written n text lines is h =
    let bytes : List ℕ = (text ++ 13 ∷ []) ++ 10 ∷ h.bytes in
    let cut : lines_from n bytes ≡ line n text h.bytes (lines_from (next_number n) h.bytes) =
    first_line n (text ++ 13 ∷ []) h.bytes (no_feed_push text 13 (λ e. omega (arith, e)) is.no_feed)
    ∙ ap (λ (x : List ℕ). line n x h.bytes (lines_from (next_number n) h.bytes)) (stripped_push text 13) in
    record {
      bytes = bytes;
      utf8 = IsUtf8-append (text ++ 13 ∷ []) (10 ∷ h.bytes) (IsUtf8-append text (13 ∷ []) is.utf8 (byte_utf8 13 (omega arith))) (IsUtf8-append (10 ∷ []) h.bytes feed_utf8 h.utf8);
      are = ap (λ (x : Lines). numbered_lines (kept_lines x)) cut ∙ rw (is.stays) (ap (λ (x : List Numbered). record { number = n; text = text } ∷ x) h.are);
    }

-- lines in their order are written
pub written : (n : ℕ) (lines : List Numbered) → InOrder n lines → IsWritten n lines
written n [] h = none_written n
written n (l ∷ lines) (k, number, is, others) =
    blanks_written k n (l ∷ lines) (subst (λ (x : ℕ). IsWritten x (l ∷ lines)) number (line_written l.number l.text lines is (written (next_number l.number) lines others)))

-- ---- lines after others

-- the number after the lines
abbrev pub number_after : ℕ → List Numbered → ℕ
number_after n [] = n
number_after n (l ∷ lines) = number_after (next_number l.number) lines

pub order_front : (n : ℕ) (front back : List Numbered) → InOrder n (front ++ back) → InOrder n front
order_front n [] back h = tt
order_front n (l ∷ front) back h = (h.0, h.1, h.2, order_front (next_number l.number) front back h.3)

pub order_append : (n : ℕ) (front back : List Numbered) → InOrder n front → InOrder (number_after n front) back → InOrder n (front ++ back)
order_append n [] back h k = k
order_append n (l ∷ front) back h k = (h.0, h.1, h.2, order_append (next_number l.number) front back h.3 k)

-- a file of these lines and others
pub make_file : (IsGood : List Numbered → Type 0) (ahead front rest : List Numbered) → InOrder 1 (ahead ++ front) → InOrder (number_after 1 (ahead ++ front)) rest → IsGood (front ++ rest)
    → BeginGoodFile IsGood ahead front
make_file IsGood ahead front rest h k good =
    let w : IsWritten 1 ((ahead ++ front) ++ rest) = written 1 ((ahead ++ front) ++ rest) (order_append 1 (ahead ++ front) rest h k) in
    record { bytes = w.bytes; utf8 = w.utf8; rest = rest; are = w.are ∙ append_assoc ahead front rest; good = good }

-- the first lines of a file stand in their order
pub first_order : (ahead lines front back : List Numbered) → lines ≡ front ++ back → InOrder 1 (ahead ++ lines) → InOrder 1 (ahead ++ front)
first_order ahead lines front back e h =
    order_front 1 (ahead ++ front) back (subst (InOrder 1) (ap (λ (x : List Numbered). ahead ++ x) e ∙ sym (append_assoc ahead front back)) h)
