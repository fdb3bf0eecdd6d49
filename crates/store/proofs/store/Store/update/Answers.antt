use Rattle.std.proofs.Common.{refl, rules}
use Rattle.memory.specs.Held.{content}
use Rattle.store.specs.Requests.{granted, done}
use Rattle.store.specs.declared.request.Answer.TheVariants.{Granted, Done}
use Rattle.store.proofs.OrderFacts.{with_scratch}
use Rattle.store.proofs.Telling.{served_alike}
use Rattle.store.proofs.store.Store.update.Goals as goal

pub returns-in-CreateFile-clause-outcome : goal.returns-in-CreateFile-clause-outcome
returns-in-CreateFile-clause-outcome g c = rw c.in-CreateFile.is
    (served_alike (content c.create_file.new.memory) granted Granted _ _ _ _ _ _ (λ _. refl)
    (λ x y p. search rules) c.map.ensures.cases c.create_file.ensures.outcome)

pub returns-in-CreateDirectory-clause-outcome : goal.returns-in-CreateDirectory-clause-outcome
returns-in-CreateDirectory-clause-outcome g c = rw c.in-CreateDirectory.is
    (served_alike (content c.create_directory.new.memory) granted Granted _ _ _ _ _ _ (λ _. refl)
    (λ x y p. search rules) c.map-in-CreateDirectory.ensures.cases
    c.create_directory.ensures.outcome)

pub returns-in-Enter-clause-outcome : goal.returns-in-Enter-clause-outcome
returns-in-Enter-clause-outcome g c = rw c.in-Enter.is
    (served_alike (content c.enter.new.memory) (λ _. done) (λ _. Done) _ _ _ _ _ _ (λ _. refl)
    (λ x y p. search rules) c.map-in-Enter.ensures.cases
    (with_scratch _ _ _ _ c.args.scratch.now c.enter.ensures.outcome))

pub returns-in-Remove-clause-outcome : goal.returns-in-Remove-clause-outcome
returns-in-Remove-clause-outcome g c = rw c.in-Remove.is
    (served_alike (content c.remove.new.memory) (λ _. done) (λ _. Done) _ _ _ _ _ _ (λ _. refl)
    (λ x y p. search rules) c.map-in-Remove.ensures.cases
    (with_scratch _ _ _ _ c.args.scratch.now c.remove.ensures.outcome))

pub returns-in-Destroy-clause-outcome : goal.returns-in-Destroy-clause-outcome
returns-in-Destroy-clause-outcome g c = rw c.in-Destroy.is
    (served_alike (content c.destroy.new.memory) (λ _. done) (λ _. Done) _ _ _ _ _ _ (λ _. refl)
    (λ x y p. search rules) c.map-in-Destroy.ensures.cases
    (with_scratch _ _ _ _ c.args.scratch.now c.destroy.ensures.outcome))

pub returns-in-Revoke-clause-outcome : goal.returns-in-Revoke-clause-outcome
returns-in-Revoke-clause-outcome g c = rw c.in-Revoke.is
    (served_alike (content c.revoke.new.memory) granted Granted _ _ _ _ _ _ (λ _. refl)
    (λ x y p. search rules) c.map-in-Revoke.ensures.cases c.revoke.ensures.outcome)
