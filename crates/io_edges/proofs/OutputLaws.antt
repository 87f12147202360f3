-- What a sink took, piece after piece.
use Rattle.io_edges.proofs.Common.{◌≡◌, ℕ, List, [], ◌++◌, length, length-append, take, Option, Some, ap, sym, ◌∙◌, subst, append_assoc, arith, Output, Took, TookPrefix, output}
use Rattle.std.proofs.lemmas.List.{append-nil}
use Rattle.std.proofs.Math.Seq.{take-append_seam}

-- it took nothing
pub took-nothing : (o : Output) → Took o o []
took-nothing o = record { accepted = sym (append-nil o.accepted); written = λ bytes told. told ∙ ap (λ (all : List ℕ). Some all) (sym (append-nil bytes)) }

-- one text and then another
pub took-both : (a b c : Output) (first second : List ℕ) → Took a b first → Took b c second → Took a c (first ++ second)
took-both a b c first second one two = record {
  accepted = two.accepted ∙ ap (λ (all : List ℕ). all ++ second) one.accepted ∙ append_assoc a.accepted first second;
  written = λ bytes told. two.written (bytes ++ first) (one.written bytes told) ∙ ap (λ (all : List ℕ). Some all) (append_assoc bytes first second);
}

-- the same text, said in another way
pub took-same : (a b : Output) (text other : List ℕ) → text ≡ other → Took a b text → Took a b other
took-same a b text other is took = subst (λ (t : List ℕ). Took a b t) is took

-- what comes first in a text is a prefix of it
pub took-first : (a b : Output) (text first rest : List ℕ) → first ++ rest ≡ text → Took a b first → TookPrefix a b text
took-first a b text first rest is took = (
  length first,
  omega (arith, simp length-append at (ap length is)),
  took-same a b first (take (length first) text) (sym (take-append_seam first rest) ∙ ap (take (length first)) is) took,
)

-- where both parts stay, the output stays
pub output-stays : (written now : Option (List ℕ)) (accepted later : List ℕ) → now ≡ written → later ≡ accepted → output now later ≡ output written accepted
output-stays written now accepted later same alike = ap (λ (w : Option (List ℕ)). output w later) same ∙ ap (output written) alike
