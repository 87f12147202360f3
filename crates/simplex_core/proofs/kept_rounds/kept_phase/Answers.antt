-- The first pivot is kept back.
use Rattle.simplex_core.proofs.Common.{◌≡◌, ◌<◌, pos, true, length, sym, ap, ◌∙◌, subst, arith, least_right_from, tableau_with, LinearProgram, program_of, State, right_sides, Tableau, negated, Counted, IsKept, x0_in, state_seen}
use Rattle.simplex_core.proofs.StartLaws.{IsKept-started}
use Rattle.simplex_core.proofs.KeptStartLaws.{ArePlain, first-IsFirst, end-first, start-any, start-tableau, start-row, start-lines}
use Rattle.simplex_core.proofs.kept_rounds.kept_phase.Goals as goal

pub are_plain-requires : goal.are_plain-requires
are_plain-requires c =
    let p : LinearProgram = program_of c.args.reduced.now in
    let any = start-any p (state_seen c.args.first) c.requires.first c.requires.start in
    subst (λ (t : Tableau). 0 < t.columns) (sym (start-tableau p (state_seen c.args.first) c.requires.first any)) (omega arith)

pub negated-requires : goal.negated-requires
negated-requires c =
    let p : LinearProgram = program_of c.args.reduced.now in
    let any = start-any p (state_seen c.args.first) c.requires.first c.requires.start in
    let tableau = start-tableau p (state_seen c.args.first) c.requires.first any in
    let least : c.least_right-home.result ≡ least_right_from 0 0 (pos 0) (right_sides (tableau_with p true)) = c.least_right-home.ensures ∙ ap (λ (t : Tableau). least_right_from 0 0 (pos 0) (right_sides t)) tableau in
    subst (λ (t : Tableau). c.least_right-home.result < length t.lines) (sym tableau) (omega (arith, start-row p c.least_right-home.result any least, start-lines p))

pub kept_rounds-requires-clause-kept : goal.kept_rounds-requires-clause-kept
kept_rounds-requires-clause-kept c =
    let p : LinearProgram = program_of c.args.reduced.now in
    let any = start-any p (state_seen c.args.first) c.requires.first c.requires.start in
    let tableau = start-tableau p (state_seen c.args.first) c.requires.first any in
    let h = c.least_right-home.result in
    let least : h ≡ least_right_from 0 0 (pos 0) (right_sides (tableau_with p true)) = c.least_right-home.ensures ∙ ap (λ (t : Tableau). least_right_from 0 0 (pos 0) (right_sides t)) tableau in
    let plain : ArePlain (tableau_with p true) = subst ArePlain tableau (c.are_plain.ensures c.if-not-are_plain.false) in
    let is : c.negated.result.tableau ≡ negated h (tableau_with p true) = ap (λ (u : Counted). u.tableau) c.negated.ensures.value ∙ ap (negated h) tableau in
    subst (λ (t : Tableau). IsKept h (x0_in t) t) (sym is) (IsKept-started (tableau_with p true) h (x0_in (tableau_with p true)) (first-IsFirst p plain) (start-row p h any least))

pub kept_rounds-requires-clause-none : goal.kept_rounds-requires-clause-none
kept_rounds-requires-clause-none c = ap (λ (u : Counted). u.pivots) c.negated.ensures.value ∙ ap (λ (s : State). s.pivots) c.requires.first

pub returns : goal.returns
returns c =
    let p : LinearProgram = program_of c.args.reduced.now in
    let any = start-any p (state_seen c.args.first) c.requires.first c.requires.start in
    let tableau = start-tableau p (state_seen c.args.first) c.requires.first any in
    let h = c.least_right-home.result in
    let least : h ≡ least_right_from 0 0 (pos 0) (right_sides (tableau_with p true)) = c.least_right-home.ensures ∙ ap (λ (t : Tableau). least_right_from 0 0 (pos 0) (right_sides t)) tableau in
    let plain : ArePlain (tableau_with p true) = subst ArePlain tableau (c.are_plain.ensures c.if-not-are_plain.false) in
    let is : c.negated.result.tableau ≡ negated h (tableau_with p true) = ap (λ (u : Counted). u.tableau) c.negated.ensures.value ∙ ap (negated h) tableau in
    end-first p c.args.pivots h c.negated.result.tableau c.kept_rounds.result any (omega arith) least plain is c.kept_rounds.ensures
