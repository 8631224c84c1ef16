use Rattle.std.proofs.Common.{sym, subst, refl, inl, ap, Err, List, ℕ}
use Rattle.f2_top.specs.Reads.{TakesScript}
use Rattle.f2_top.proofs.ReplayLemmas.{Spells-playable, Ran-lines, Ran-none, Ran-line, ok-fits, line-fits}
use Rattle.f2_top.proofs.DueLemmas.{DueTaken-lines, DueTaken-long, DueTaken-line, IsDueLines-no_disk, IsDueLines-no_image}
use Rattle.f2_top.proofs.replay.replay.Goals as goal

pub play-requires : goal.play-requires
play-requires g c = record { playable = Spells-playable c.as_slice.result.now _ c.in-Ok-parse.ensures.ok }

pub returns-in-Ok-parse-clause-ran : goal.returns-in-Ok-parse-clause-ran
returns-in-Ok-parse-clause-ran g c =
    let taken = subst (λ (b : List ℕ). TakesScript (g.S.Source.remaining c.args.source.now) (g.S.Source.remaining c.read_script.new.source) b) (sym c.as_slice.ensures.value) c.in-Ok.ensures.ok in
    λ counts. Ran-lines _ _ _ _ _ _ _ _ taken (ok-fits c.as_slice.result.now c.in-Ok-parse.lines _ refl c.in-Ok-parse.ensures.too_long.1) c.in-Ok-parse.ensures.ok (c.play.ensures.ends counts)

pub returns-in-Ok-parse-clause-due : goal.returns-in-Ok-parse-clause-due
returns-in-Ok-parse-clause-due g c =
    let taken = subst (λ (b : List ℕ). TakesScript (g.S.Source.remaining c.args.source.now) (g.S.Source.remaining c.read_script.new.source) b) (sym c.as_slice.ensures.value) c.in-Ok.ensures.ok in
    DueTaken-lines _ _ _ _ _ taken (ok-fits c.as_slice.result.now c.in-Ok-parse.lines _ refl c.in-Ok-parse.ensures.too_long.1) c.in-Ok-parse.ensures.ok c.play.ensures.due

pub returns-in-Err-TooLong-clause-ran : goal.returns-in-Err-TooLong-clause-ran
returns-in-Err-TooLong-clause-ran g c =
    let taken = subst (λ (b : List ℕ). TakesScript (g.S.Source.remaining c.args.source.now) (g.S.Source.remaining c.read_script.new.source) b) (sym c.as_slice.ensures.value) c.in-Ok.ensures.ok in
    λ counts. Ran-none _ _ _ _ _ _ taken (c.in-Err-TooLong.ensures.too_long.0 (ap Err c.in-Err-TooLong.field-0-is), refl)

pub returns-in-Err-TooLong-clause-due : goal.returns-in-Err-TooLong-clause-due
returns-in-Err-TooLong-clause-due g c =
    let taken = subst (λ (b : List ℕ). TakesScript (g.S.Source.remaining c.args.source.now) (g.S.Source.remaining c.read_script.new.source) b) (sym c.as_slice.ensures.value) c.in-Ok.ensures.ok in
    DueTaken-long _ _ _ taken (c.in-Err-TooLong.ensures.too_long.0 (ap Err c.in-Err-TooLong.field-0-is))

pub returns-in-Err-Line-clause-ran : goal.returns-in-Err-Line-clause-ran
returns-in-Err-Line-clause-ran g c =
    let taken = subst (λ (b : List ℕ). TakesScript (g.S.Source.remaining c.args.source.now) (g.S.Source.remaining c.read_script.new.source) b) (sym c.as_slice.ensures.value) c.in-Ok.ensures.ok in
    λ counts.
    Ran-line _ _ _ _ _ _ _ taken
    (line-fits c.as_slice.result.now c.in-Err-Line.line _ (ap Err c.in-Err-Line.field-0-is) c.in-Err-Line.ensures.too_long.1)
    (c.in-Err-Line.ensures.line c.in-Err-Line.line (ap Err c.in-Err-Line.field-0-is)) (sym c.in-Err-Line.line-is)

pub returns-in-Err-Line-clause-due : goal.returns-in-Err-Line-clause-due
returns-in-Err-Line-clause-due g c =
    let taken = subst (λ (b : List ℕ). TakesScript (g.S.Source.remaining c.args.source.now) (g.S.Source.remaining c.read_script.new.source) b) (sym c.as_slice.ensures.value) c.in-Ok.ensures.ok in
    DueTaken-line _ _ _ _ _ taken
    (line-fits c.as_slice.result.now c.in-Err-Line.line _ (ap Err c.in-Err-Line.field-0-is) c.in-Err-Line.ensures.too_long.1)
    (c.in-Err-Line.ensures.line c.in-Err-Line.line (ap Err c.in-Err-Line.field-0-is)) (sym c.in-Err-Line.line-is)

pub returns-clause-ran : goal.returns-clause-ran
returns-clause-ran g c =
    let taken = subst (λ (b : List ℕ). TakesScript (g.S.Source.remaining c.args.source.now) (g.S.Source.remaining c.read_script.new.source) b) (sym c.as_slice.ensures.value) c.in-Ok.ensures.ok in
    λ counts. Ran-none _ _ _ _ _ _ taken (inl refl)

pub returns-in-Ok-parse-clause-no_disk : goal.returns-in-Ok-parse-clause-no_disk
returns-in-Ok-parse-clause-no_disk g c = IsDueLines-no_disk c.in-Ok-parse.lines _ c.play.ensures.due

pub returns-in-Ok-parse-clause-no_image : goal.returns-in-Ok-parse-clause-no_image
returns-in-Ok-parse-clause-no_image g c = λ bad. IsDueLines-no_image c.in-Ok-parse.lines _ bad c.play.ensures.due
