-- `list::run` writes what is printed for the whole input: what is read of it says that.
use Rattle.std.proofs.Common.{◌≡◌, List, ℕ, take, IfSome, OnOk, ◌∙◌, ap}
use native.Mathlib.Nat.{sub-zero}
use Rattle.std.specs.Prelude.{None, Some, Ok, Err}
use Rattle.std.specs.Io.KnownBytes.{Appends}
use Rattle.std.specs.declared.option.Option.{Option}
use Rattle.std.specs.declared.result.Result.{Result}
use Rattle.list.specs.Printed.{printed}
use Rattle.list.proofs.PrintLaws.{enough_read}
use Rattle.list.proofs.run.Goals as goal

-- what is printed for the bytes that were read is what is printed for all
whole : (known old new : Option (List ℕ)) (read written : List ℕ) → IfSome known (λ xs. read ≡ take 6289 xs) → written ≡ printed read →
    Appends old new written → IfSome known (λ xs. Appends old new (printed xs))
whole None old new read written r w h = tt
whole (Some xs) old new read written r w h = rw (w ∙ (ap printed r ∙ enough_read xs)) at h

whole_on_ok : {A E : Type 0} (answer : Result A E) (known old new : Option (List ℕ)) (read written : List ℕ) →
    IfSome known (λ xs. read ≡ take 6289 xs) → written ≡ printed read → OnOk answer (Appends old new written) →
    OnOk answer (IfSome known (λ xs. Appends old new (printed xs)))
whole_on_ok (Ok x) known old new read written r w h = whole known old new read written r w h
whole_on_ok (Err e) known old new read written r w h = tt

pub returns : goal.returns
returns g c =
    whole_on_ok c.write_all.result (g.R.Read.remaining c.args.input.now)
    (g.W.Write.contents c.args.output.now) (g.W.Write.contents c.write_all.new.self)
    (take c.in_ok-n.n c.read_full.new.bytes) (take c.print-printed.result c.print-printed.new.out)
    c.in_ok-n.ensures.1
    (rw (sub-zero c.in_ok-n.n) at c.print-printed.ensures.1)
    (rw (sub-zero c.print-printed.result) at c.write_all.ensures.bytes)
