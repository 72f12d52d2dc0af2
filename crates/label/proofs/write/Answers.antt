-- `label::write` meets its contract: the label stands in the first twenty bytes, or nothing is written.
use Rattle.std.proofs.Common.{sym, ◌∙◌, eq-eqb, ne_eqb}
use Rattle.state.specs.State.{status_oop}
use Rattle.label.proofs.Placed.{sixty}
use Rattle.label.proofs.Room.{unsound, short, done}
use Rattle.label.proofs.write.Goals as goal

pub returns-then-not-in_range : goal.returns-then-not-in_range
returns-then-not-in_range c =
    let i = c.args in
    let p = unsound i.c i.out.now (sym c.in_range.ensures ∙ c.if-not-in_range.true) in
    record { value = p.0; out_after = p.1 }

pub returns-in_default : goal.returns-in_default
returns-in_default c =
    let i = c.args in
    let p = short i.c i.out.now (sym c.in_range.ensures ∙ c.if-not-in_range.false) (rw c.in_default.is at c.first_chunk_mut.ensures.cases) in
    record { value = p.0; out_after = p.1 }

pub returns-then-c-eq-TIME_OOP : goal.returns-then-c-eq-TIME_OOP
returns-then-c-eq-TIME_OOP c =
    let i = c.args in
    let sound = sym c.in_range.ensures ∙ c.if-not-in_range.false in
    let oop = eq-eqb i.c.status status_oop c.if-c-eq-TIME_OOP.true in
    let p = done i.c i.out.now sound c.in-Some.ensures.cases.enough
    (simp oop (rw (c.put_label.ensures, sixty i.c.seconds) at c.put_sixty.ensures)) in
    record { value = p.0; out_after = p.1 }

pub returns-else-c-eq-TIME_OOP : goal.returns-else-c-eq-TIME_OOP
returns-else-c-eq-TIME_OOP c =
    let i = c.args in
    let sound = sym c.in_range.ensures ∙ c.if-not-in_range.false in
    let other = ne_eqb i.c.status status_oop c.if-c-eq-TIME_OOP.false in
    let p = done i.c i.out.now sound c.in-Some.ensures.cases.enough (simp other c.put_label.ensures) in
    record { value = p.0; out_after = p.1 }
