use Rattle.param_tables.proofs.Common.{◌≡◌, ℕ, ◌+◌, ◌-◌, List, length, get_or, get_or_default, set, sym, ap, ap₂, ◌∙◌, subst, arith, err_from_is_err_and, param_count, Built, IsParam}
use Rattle.param_tables.specs.Changes.{rounded_by}
use Rattle.param_tables.specs.ChangeTold.{change_told}
use Rattle.param_tables.specs.OpenTables.{ArePut, KeepsShape, MayBePut}
use Rattle.param_tables.specs.declared.open_table.OpenTable.{OpenTable}
use Rattle.param_tables.proofs.ChangeToldLaws.{complete_told, facts_told, fail_told, none_refused, open_told, rounded_told}
use Rattle.param_tables.proofs.OpenLaws.{complete_opened}
use Rattle.param_tables.proofs.open_data.OpenData.apply.Goals as goal

-- the table of the parameter, as it is read
table_at : (tables : List OpenTable) (i p : ℕ) (table : OpenTable) → i ≡ p - 1 → table ≡ get_or tables i table → table ≡ get_or tables (p - 1) table
table_at tables i p table place is = is ∙ ap (λ j. get_or tables j table) place

-- and as it is written
same_table : (tables : List OpenTable) (i p : ℕ) (table other : OpenTable) → IsParam p → length tables ≡ param_count → i ≡ p - 1 → table ≡ get_or tables i table → other ≡ get_or tables i other → table ≡ other
same_table tables i p table other listed all place is at =
    let low = listed.0 in
    let high = listed.1 in
    is ∙ get_or_default tables i table other (omega (arith, low, high, all, place)) ∙ sym at

pub returns-in_err-puts-clause-complete : goal.returns-in_err-puts-clause-complete
returns-in_err-puts-clause-complete c = let o = c.self.inside in complete_told o.sets o.tables.items o.second o.rounded c.self.invariant c.args.self.now c.self.view_is

pub returns-in_err-puts-clause-refused : goal.returns-in_err-puts-clause-refused
returns-in_err-puts-clause-refused c =
    let o = c.self.inside in
    let p = err_from_is_err_and c.from_residual.result c.from_residual.ensures.1 in
    let at = table_at o.tables.items c.from-at.result c.args.change.now.param c.index.result.now c.from-at.ensures c.index.ensures in
    rw (p.1, p.2) (fail_told o.sets o.tables.items o.second o.rounded c.self.invariant c.args.self.now c.self.view_is c.args.change.now c.requires c.index.result.now at c.in_err-puts.field-0.0 c.in_err-puts.ensures.refused)

pub returns-in_default-clause-complete : goal.returns-in_default-clause-complete
returns-in_default-clause-complete c = let o = c.self.inside in complete_told o.sets o.tables.items o.second o.rounded c.self.invariant c.args.self.now c.self.view_is

pub invariant_of-self : goal.invariant_of-self
invariant_of-self c =
    let o = c.self.inside in
    let at = table_at o.tables.items c.from-at.result c.args.change.now.param c.index.result.now c.from-at.ensures c.index.ensures in
    let same : c.index_mut.result.now ≡ c.index.result.now = same_table o.tables.items c.from-at.result c.args.change.now.param c.index_mut.result.now c.index.result.now c.requires.used.0 c.self.invariant.all c.from-at.ensures c.index_mut.ensures.value c.index.ensures in
    open_told o.sets o.tables.items o.second o.rounded c.self.invariant c.args.self.now c.self.view_is c.args.change.now c.requires c.index.result.now at c.in_ok-puts.ensures.accepted c.from-at.result c.as_slice.result.now c.put_all.new.self c.from-at.ensures
    (c.as_slice.ensures.value ∙ c.in_ok-puts.ensures.puts)
    (subst (λ (t : OpenTable). KeepsShape t c.put_all.new.self) same c.in_err-put_all.ensures.shape)
    (subst (λ (t : OpenTable). MayBePut c.as_slice.result.now t c.put_all.new.self) same c.in_err-put_all.ensures.some)

pub returns-in_err-put_all-clause-complete : goal.returns-in_err-put_all-clause-complete
returns-in_err-put_all-clause-complete c = complete_opened c.self.inside.sets (set c.self.inside.tables.items c.from-at.result c.put_all.new.self) c.self.inside.second (invariant_of-self c)

pub invariant_of-self-2 : goal.invariant_of-self-2
invariant_of-self-2 c =
    let o = c.self.inside in
    let at = table_at o.tables.items c.from-at.result c.args.change.now.param c.index.result.now c.from-at.ensures c.index.ensures in
    let same : c.index_mut.result.now ≡ c.index.result.now = same_table o.tables.items c.from-at.result c.args.change.now.param c.index_mut.result.now c.index.result.now c.requires.used.0 c.self.invariant.all c.from-at.ensures c.index_mut.ensures.value c.index.ensures in
    open_told o.sets o.tables.items o.second o.rounded c.self.invariant c.args.self.now c.self.view_is c.args.change.now c.requires c.index.result.now at c.in_ok-puts.ensures.accepted c.from-at.result c.as_slice.result.now c.put_all.new.self c.from-at.ensures
    (c.as_slice.ensures.value ∙ c.in_ok-puts.ensures.puts)
    (subst (λ (t : OpenTable). KeepsShape t c.put_all.new.self) same c.in_ok-put_all.ensures.shape)
    (subst (λ (t : OpenTable). MayBePut c.as_slice.result.now t c.put_all.new.self) same c.in_ok-put_all.ensures.some)

pub returns-clause-changed : goal.returns-clause-changed
returns-clause-changed c =
    let o = c.self.inside in
    let change = c.args.change.now in
    let at = table_at o.tables.items c.from-at.result change.param c.index.result.now c.from-at.ensures c.index.ensures in
    let same : c.index_mut.result.now ≡ c.index.result.now = same_table o.tables.items c.from-at.result change.param c.index_mut.result.now c.index.result.now c.requires.used.0 c.self.invariant.all c.from-at.ensures c.index_mut.ensures.value c.index.ensures in
    record {
      facts =
          facts_told o.sets o.tables.items o.second o.rounded c.self.invariant c.args.self.now c.self.view_is change c.requires c.index.result.now at c.from-at.result c.as_slice.result.now c.put_all.new.self c.from-at.ensures
          (c.as_slice.ensures.value ∙ c.in_ok-puts.ensures.puts)
          (subst (λ (t : OpenTable). KeepsShape t c.put_all.new.self) same c.in_ok-put_all.ensures.shape)
          (subst (λ (t : OpenTable). ArePut c.as_slice.result.now t c.put_all.new.self) same c.in_ok-put_all.ensures.put);
      rounded =
          let all : c.in_ok-puts.puts.rounded ≡ rounded_by c.args.self.now.facts (change_told c.args.self.now.facts.sets change) =
          c.in_ok-puts.ensures.rounded ∙ rounded_told o.sets o.tables.items o.second o.rounded c.self.invariant c.args.self.now c.self.view_is change c.requires c.index.result.now at in
          let before : o.rounded ≡ c.args.self.now.rounded = ap (λ (b : Built). b.rounded) c.self.view_is in
          c.in-Some.ensures.1 ∙ ap₂ (λ (a b : ℕ). a + b) before all;
    }

pub returns-clause-complete : goal.returns-clause-complete
returns-clause-complete c = complete_opened c.self.inside.sets (set c.self.inside.tables.items c.from-at.result c.put_all.new.self) c.self.inside.second (invariant_of-self-2 c)

pub returns-clause-accepted : goal.returns-clause-accepted
returns-clause-accepted c =
    let o = c.self.inside in
    let at = table_at o.tables.items c.from-at.result c.args.change.now.param c.index.result.now c.from-at.ensures c.index.ensures in
    none_refused o.sets o.tables.items o.second o.rounded c.self.invariant c.args.self.now c.self.view_is c.args.change.now c.requires c.index.result.now at c.in_ok-puts.ensures.accepted
