-- Why bytes have no interface.
use Rattle.std.proofs.Common.{◌≡◌, ℕ, List, inl, inr, refl, sym, ap, ◌∙◌}
use Rattle.std.specs.Prelude.{Option, Some, None, Err, IfSome}
use Rattle.sx_lines.specs.FirstBad.{IsFirstBad}
use Rattle.sx_lines.specs.Lines.{lines_from, line_texts}
use Rattle.sx_interface.specs.declared.error.HeaderError.{HeaderError}
use Rattle.sx_interface.specs.declared.error.HeaderError.TheVariants as header_error
use Rattle.sx_interface.specs.declared.interfaces.Interface.{Interface}
use Rattle.sx_interface.specs.Interfaces.{interface_of, other_version}
use Rattle.sx_interface.specs.InterfaceView.{interface_view}
use Rattle.sx_interface.specs.Reading.{AnswersVersion, error_line}
use Rattle.sx_interface.specs.Stated.{StatesInterface}
use Rattle.sx_steps.specs.declared.stop.Stop.{Stop}
use Rattle.sx_steps.specs.Stops.{not_utf8}
use Rattle.sx_headers.specs.HeaderStops.{header_stop, version_stop as is_other_version}
use Rattle.sx_headers.specs.ReadInterface.{StatesParts}

some_same : (s t : Stop) → Some s ≡ Some t → s ≡ t
some_same s t e = cc

none_some : (A : Type 0) (t : Stop) → None ≡ Some t → A
none_some A t e = absurd cc

module _ (file name bytes : List ℕ) (stop : Stop) where
  abbrev Answers : Option ℕ → HeaderError → Type 0
  Answers version e = AnswersVersion {X = Interface} bytes version interface_view (Err e)
      (interface_of name (lines_from 1 bytes))

  abbrev HasLine : HeaderError → Type 0
  HasLine e = IfSome (error_line e)
      (IsFirstBad (λ l. StatesInterface name (line_texts l)) (lines_from 1 bytes))

  by_version : (version : Option ℕ) (e : HeaderError) →
      other_version (lines_from 1 bytes) ≡ version →
      Answers version e → HasLine e → header_stop file e ≡ Some stop →
      StatesParts file name bytes (Err stop)
  by_version version header_error.Memory is h line told = none_some _ stop told
  by_version (Some v) (header_error.NotUtf8 place) is h line told =
      inl (h.0, sym (some_same _ stop told) ∙ ap (not_utf8 file) h.1)
  by_version None (header_error.NotUtf8 place) is h line told =
      inl (h.0, sym (some_same _ stop told) ∙ ap (not_utf8 file) h.1)
  by_version (Some v) (header_error.Header n) is h line told = absurd h
  by_version None (header_error.Header n) is h line told =
      inr (h.0, inr (is, (n, line, sym (some_same _ stop told))))
  by_version (Some v) (header_error.Version n) is h line told =
      inr (h.0, inl (v, is, sym (some_same _ stop told) ∙ ap (is_other_version file) h.1))
  by_version None (header_error.Version n) is h line told = absurd h.1

  pub bad_parts : (e : HeaderError) → Answers (other_version (lines_from 1 bytes)) e → HasLine e →
      header_stop file e ≡ Some stop → StatesParts file name bytes (Err stop)
  bad_parts e h line told = by_version (other_version (lines_from 1 bytes)) e refl h line told
