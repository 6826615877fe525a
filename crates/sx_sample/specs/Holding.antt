-- The files that the sample module needs.
use Rattle.std.specs.Prelude.{ℕ, [], ◌∷◌, codes}
use Rattle.sx_outside.specs.Files.{Files, after_writes, no_files}
use Rattle.sx_sample.specs.declared.texts.TheConstants.{LAM_LANG, LET_EXT}
use Rattle.sx_sample.specs.Samples.{sample_text}

-- the module with so many names, its language and its extension, and no other file
abbrev pub sample_files : ℕ → Files
sample_files n = after_writes (record { name = codes "Lam.lang"; bytes = LAM_LANG.now }
    ∷ record { name = codes "Let.ext"; bytes = LET_EXT.now }
    ∷ record { name = codes "Sample.mod"; bytes = sample_text n } ∷ []) no_files
