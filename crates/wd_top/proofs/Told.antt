-- What holds where something is told.
use Rattle.std.specs.Prelude.{Option, Some, None, IfSome}

-- it holds of everything
pub told_all : {A : Type 0} {P : A → Type 0} (o : Option A) → ((a : A) → P a) → IfSome o P
told_all None f = tt
told_all (Some a) f = f a

-- it follows from two facts that hold
pub told_both : {A : Type 0} {P Q R : A → Type 0} (o : Option A) → IfSome o P → IfSome o Q → ((a : A) → P a → Q a → R a)
    → IfSome o R
told_both None h k f = tt
told_both (Some a) h k f = f a h k

-- it follows from what holds
pub told_map : {A : Type 0} {P Q : A → Type 0} (o : Option A) → IfSome o P → ((a : A) → P a → Q a) → IfSome o Q
told_map None h f = tt
told_map (Some a) h f = f a h
