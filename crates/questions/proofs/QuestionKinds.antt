-- Which bytes are kinds.
use Rattle.std.proofs.Common.{◌≡◌, ℕ, ◌<◌, ◌≤◌, ◌⊎◌, Some, None, Ok, Err, Result, sym, ap, ◌∙◌, inl, inr, ⊎_elim, arith}
use Rattle.std.specs.Result.{result_ok}
use Rattle.questions.specs.declared.kind.Kind.{Kind}
use Rattle.questions.specs.declared.kind.Kind.TheVariants.{Word, Phrase, Begins, Near, Both, Either, But}
use Rattle.questions.specs.declared.kind.UnknownKind.{UnknownKind}
use Rattle.questions.specs.Kinds.{kind_number, KindOf}

pub kind_some : {byte : ℕ} {k : Kind} (r : Result Kind UnknownKind) → KindOf byte r → Some k ≡ result_ok r → kind_number k ≡ byte
kind_some {byte} {k} (Ok k₁) h e = let same : k ≡ k₁ = cc in ap kind_number same ∙ h
kind_some (Err e₁) h e = cc

pub kind_none : {byte : ℕ} (r : Result Kind UnknownKind) → KindOf byte r → ◌≡◌ {A = _} None (result_ok r) → (byte ≡ 0) ⊎ (7 < byte)
kind_none (Ok k) h e = cc
kind_none (Err e₁) h e = h.1

module _ {byte : ℕ} {k : Kind} (n : kind_number k ≡ byte) where
  pub kind_is : {k₁ : Kind} → k ≡ k₁ → byte ≡ kind_number k₁
  kind_is e = sym n ∙ ap kind_number e

  pub kind_sought : (k ≡ Word) ⊎ (k ≡ Begins) → (byte ≡ 1) ⊎ (byte ≡ 3)
  kind_sought h = ⊎_elim (λ e. inl (kind_is e)) (λ e. inr (kind_is e)) h

  pub kind_alone : (k ≡ Word) ⊎ ((k ≡ Phrase) ⊎ ((k ≡ Begins) ⊎ (k ≡ Near))) → 5 ≤ byte → byte ≤ 7 → ⊥
  kind_alone (inl e) l h = let b = kind_is e in omega arith
  kind_alone (inr (inl e)) l h = let b = kind_is e in omega arith
  kind_alone (inr (inr (inl e))) l h = let b = kind_is e in omega arith
  kind_alone (inr (inr (inr e))) l h = let b = kind_is e in omega arith

  pub kind_joins : (k ≡ Both) ⊎ ((k ≡ Either) ⊎ (k ≡ But)) → (5 ≤ byte) × (byte ≤ 7)
  kind_joins (inl e) = let b = kind_is e in (omega arith, omega arith)
  kind_joins (inr (inl e)) = let b = kind_is e in (omega arith, omega arith)
  kind_joins (inr (inr e)) = let b = kind_is e in (omega arith, omega arith)
