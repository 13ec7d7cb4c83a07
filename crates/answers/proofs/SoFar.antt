-- Pieces that are written one after another: what is written and what is left make up the whole.
use Rattle.std.proofs.Common.{◌≡◌, ℕ, true, List, [], ◌∷◌, ◌++◌, is_ok, codes, Result, sym, refl, ◌∙◌, subst, append_assoc, append-nil}
use Rattle.std.proofs.Output.{writes_in_calls_nil, has_written_append, has_written_of_eq}
use Rattle.std.specs.Fmt.{IsPlainFormatter, HasWritten, WritesOnOk}
use Rattle.std.specs.declared.fmt.Error.{Error}
use Rattle.std.specs.declared.fmt.Formatter.{Formatter}
use Rattle.program.specs.Pieces.{Span}
use Rattle.answers.specs.Texts.{text, span_text, pieces_text}

pub record Written {W : Type 0} (took : W → List ℕ → W → Type 0) (f : Formatter W) (all : List Span) (g : Formatter W) (left : List Span) : Type 0 where
  pub done : List ℕ
  pub put : HasWritten took f done g
  pub whole : done ++ pieces_text left ≡ pieces_text all

abbrev pub SoFar : {W : Type 0} → (W → List ℕ → W → Type 0) → Formatter W → List Span → Formatter W → List Span → Type 0
SoFar took f all g left = IsPlainFormatter f → Written took f all g left

module _ {W : Type 0} (took : W → List ℕ → W → Type 0) where
  pub none_yet : (f : Formatter W) (all : List Span) → SoFar took f all f all
  none_yet f all plain = record { done = []; put = record { wrote = writes_in_calls_nil took f.writer; plain = plain }; whole = refl }

  one_more : (f : Formatter W) (all : List Span) (g : Formatter W) (s : Span) (left : List Span) (h : Formatter W) → HasWritten took g (text (codes " " ∷ span_text s ∷ [])) h → Written took f all g (s ∷ left) → Written took f all h left
  one_more f all g s left h p w = record {
    done = w.done ++ text (codes " " ∷ span_text s ∷ []);
    put = has_written_append took f w.done g (text (codes " " ∷ span_text s ∷ [])) h w.put p;
    whole = append_assoc w.done (text (codes " " ∷ span_text s ∷ [])) (pieces_text left) ∙ w.whole;
  }

  -- the next piece is written
  pub and_next : (f : Formatter W) (all : List Span) (g : Formatter W) (before : List Span) (s : Span) (left : List Span) (h : Formatter W) (r : Result (Unit {0}) Error)
      → SoFar took f all g before → before ≡ s ∷ left → WritesOnOk took g r (text (codes " " ∷ span_text s ∷ [])) h → is_ok r ≡ true → SoFar took f all h left
  and_next f all g before s left h r so_far e prints ok plain =
      let w = subst (λ (l : List Span). Written took f all g l) e (so_far plain) in one_more f all g s left h (prints w.put.plain ok) w

  -- nothing is left
  pub all_written : (f : Formatter W) (all : List Span) (g : Formatter W) (before : List Span) → SoFar took f all g before → before ≡ [] → IsPlainFormatter f → HasWritten took f (pieces_text all) g
  all_written f all g before so_far e plain =
      let w = subst (λ (l : List Span). Written took f all g l) e (so_far plain) in has_written_of_eq took f w.done (pieces_text all) g (sym (append-nil w.done) ∙ w.whole) w.put
