-- Each fault has its line.
use Rattle.tevents.proofs.faults.put_fault.Goals as goal

pub returns-in-Bytes : goal.returns-in-Bytes
returns-in-Bytes c = rw c.in-Bytes.is c.put_placed.ensures

pub returns-in-Token : goal.returns-in-Token
returns-in-Token c = rw c.in-Token.is c.put_placed-in-Token.ensures

pub returns-in-Syntax : goal.returns-in-Syntax
returns-in-Syntax c = rw c.in-Syntax.is c.put_placed-in-Syntax.ensures

pub returns-in-Integer : goal.returns-in-Integer
returns-in-Integer c = rw c.in-Integer.is c.put_placed-in-Integer.ensures

pub returns-in-Unbound : goal.returns-in-Unbound
returns-in-Unbound c = rw c.in-Unbound.is c.put_placed-in-Unbound.ensures

pub returns-in-Twice : goal.returns-in-Twice
returns-in-Twice c = rw c.in-Twice.is c.put_placed-in-Twice.ensures

pub returns-in-Shadow : goal.returns-in-Shadow
returns-in-Shadow c = rw c.in-Shadow.is c.put_placed-in-Shadow.ensures

pub returns-in-NoThread : goal.returns-in-NoThread
returns-in-NoThread c = rw c.in-NoThread.is c.put_placed-in-NoThread.ensures
